pub mod Kept
pub mod Branches
pub mod Runs
pub mod Each
pub mod Insides
pub mod Sizes
pub mod BlockEnds
pub mod Transfers
