pub mod Breaks
pub mod Views
pub mod Parts
