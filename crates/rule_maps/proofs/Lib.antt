pub mod Readings
pub mod Keys
