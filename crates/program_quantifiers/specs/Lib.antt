pub mod Quantifiers
pub mod Words
pub mod Statements
pub mod Programs
