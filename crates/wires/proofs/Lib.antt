pub mod Digits
pub mod Rows
pub mod Parts
pub mod Lowest
pub mod Terms
pub mod Sets
pub mod Cases
