pub mod Steps
pub mod Entries
pub mod Near
pub mod Goes
pub mod Runs
pub mod Codes
pub mod Endings
