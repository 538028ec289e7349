pub mod Views
pub mod Rows
pub mod Loops
pub mod Fronts
