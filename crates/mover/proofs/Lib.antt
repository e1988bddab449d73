pub mod Front
pub mod Ends
pub mod Moves
