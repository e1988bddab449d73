pub mod Tabling
pub mod Writing
pub mod Ends
pub mod Demand
pub mod Named
