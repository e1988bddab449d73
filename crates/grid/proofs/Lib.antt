pub mod Doubling
pub mod Fours
