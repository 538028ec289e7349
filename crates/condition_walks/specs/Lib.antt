pub mod Laws
pub mod Conversions
