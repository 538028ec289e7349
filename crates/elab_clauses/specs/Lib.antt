pub mod Numberings
pub mod Typing
pub mod Members
