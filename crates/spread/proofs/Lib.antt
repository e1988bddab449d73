pub mod Front
pub mod Back
pub mod Meaning
