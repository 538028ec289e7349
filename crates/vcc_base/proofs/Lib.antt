pub mod Appending
pub mod Writing
pub mod Holding
pub mod Outcomes
pub mod Reading
pub mod Printing
