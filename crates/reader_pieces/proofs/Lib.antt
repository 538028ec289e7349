pub mod Links
pub mod Choices
