pub mod Ranges
pub mod Readable
pub mod Operators
pub mod Outcomes
pub mod Listing
pub mod SameTests
pub mod Verdicts
