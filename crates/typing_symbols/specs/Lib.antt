pub mod Counts
pub mod Hidden
pub mod Lookup
pub mod Names
pub mod Program
pub mod Scopes
pub mod Whole
