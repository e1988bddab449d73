pub mod Spread
pub mod Walk
