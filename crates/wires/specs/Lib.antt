pub mod Wires
pub mod Terms
