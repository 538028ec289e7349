pub mod Texts
pub mod Outcomes
pub mod Writing
pub mod Runs
