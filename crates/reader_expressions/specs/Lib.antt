pub mod Reading
pub mod Levels
pub mod Forms
pub mod Joints
pub mod Suffixes
pub mod Lists
pub mod Operands
pub mod Types
