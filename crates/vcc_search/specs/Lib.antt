pub mod Searches
pub mod Reports
