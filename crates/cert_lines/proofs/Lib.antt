pub mod Again
pub mod First
pub mod Naturals
pub mod Parts
pub mod Plain
pub mod Readings
pub mod Splits
pub mod Taken
