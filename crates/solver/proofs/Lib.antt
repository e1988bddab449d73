pub mod Writing
pub mod Grids
pub mod Boards
pub mod Demand
