pub mod Cases
pub mod Papers
