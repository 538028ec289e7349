pub mod Putting
pub mod Counting
pub mod Turned
