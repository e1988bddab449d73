pub mod Plain
pub mod Packing
