pub mod Numerals
pub mod Grammar
