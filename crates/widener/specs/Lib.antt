pub mod Table
pub mod Widened
pub mod Writing
