pub mod Declared
pub mod Counts
pub mod Nesting
pub mod Places
pub mod Tables
