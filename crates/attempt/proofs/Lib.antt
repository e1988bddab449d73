pub mod Merging
pub mod Attempts
