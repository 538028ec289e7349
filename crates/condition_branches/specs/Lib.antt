pub mod Facts
pub mod Guards
pub mod Joins
pub mod Ways
