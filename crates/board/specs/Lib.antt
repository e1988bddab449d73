pub mod Board
pub mod Tables
pub mod Walk
pub mod Tests
pub mod Tested
pub mod JobBoard
pub mod Check
pub mod Places
