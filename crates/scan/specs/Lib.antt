pub mod Steps
pub mod Reach
pub mod Kept
