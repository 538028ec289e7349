pub mod Conversions
pub mod Sources
