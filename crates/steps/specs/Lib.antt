pub mod Step
pub mod Outcome
pub mod Bytes
pub mod Found
