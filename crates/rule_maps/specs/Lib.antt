pub mod Rows
pub mod Readings
pub mod Places
pub mod SortedTerms
pub mod Sound
