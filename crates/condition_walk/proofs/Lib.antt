pub mod Forms
pub mod Receiving
pub mod Entries
pub mod Ways
pub mod Paths
