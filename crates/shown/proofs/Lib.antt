pub mod Tests
pub mod Laws
pub mod Computed
pub mod Shown
pub mod Forms
