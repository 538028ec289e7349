pub mod Kinds
pub mod Labels
pub mod Names
pub mod Tallies
