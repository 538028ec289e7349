pub mod Names
pub mod Operators
pub mod Typing
pub mod Views
