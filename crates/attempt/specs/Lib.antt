pub mod Merge
pub mod Attempt
