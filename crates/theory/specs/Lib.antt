pub mod Same
pub mod Solve
pub mod Trail
pub mod Widen
