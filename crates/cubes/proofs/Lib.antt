pub mod Parts
pub mod Tests
pub mod Gather
pub mod Arrange
pub mod Patterns
pub mod Words
pub mod Cubed
