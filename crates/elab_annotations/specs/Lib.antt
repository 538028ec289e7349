pub mod Sizes
pub mod Typing
pub mod Views
