pub mod Bank
pub mod Literal
