pub mod Names
pub mod Violation
