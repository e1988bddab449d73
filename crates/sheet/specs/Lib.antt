pub mod Job
pub mod JobSheet
pub mod JobFound
pub mod Examples
