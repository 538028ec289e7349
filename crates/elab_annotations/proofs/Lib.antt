pub mod Laws
pub mod Specs
pub mod Steps
pub mod Vectors
