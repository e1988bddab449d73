pub mod Pieces
pub mod Many
pub mod Sections
pub mod Length
pub mod There
pub mod Sheets
