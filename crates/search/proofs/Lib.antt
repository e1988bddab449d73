pub mod Halves
pub mod Turns
