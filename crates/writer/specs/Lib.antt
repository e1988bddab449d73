pub mod JobWritten
pub mod Writing
pub mod Examples
