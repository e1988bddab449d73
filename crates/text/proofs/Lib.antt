pub mod Decimals
pub mod Numbered
pub mod Tables
pub mod Lines
pub mod Ends
