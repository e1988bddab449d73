pub mod Answering
pub mod Whole
