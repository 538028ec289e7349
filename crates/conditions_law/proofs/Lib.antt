pub mod Fits
pub mod Safety
pub mod Samples
