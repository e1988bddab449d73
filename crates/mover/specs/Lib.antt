pub mod Moved
pub mod Examples
