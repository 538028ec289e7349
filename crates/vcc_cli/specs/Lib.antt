pub mod Accepts
pub mod Checks
pub mod Searches
pub mod Upgrades
pub mod SecondVersions
pub mod Generated
pub mod Ends
