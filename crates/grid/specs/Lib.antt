pub mod Grid
pub mod Held
pub mod Filled
