pub mod Chunks
pub mod Region
