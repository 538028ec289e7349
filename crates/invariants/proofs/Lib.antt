pub mod Scanning
pub mod Touching
pub mod Entries
pub mod Approving
