pub mod Asks
pub mod Taking
pub mod Taken
