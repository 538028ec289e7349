pub mod Chosen
pub mod GhostLinks
pub mod Assigns
pub mod Statements
pub mod Vectors
pub mod Listed
pub mod Closing
