pub mod Adding
pub mod Vectors
pub mod Alike
