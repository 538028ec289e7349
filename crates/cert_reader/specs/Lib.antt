pub mod Keeping
pub mod Decoding
