pub mod Rows
pub mod Joins
pub mod Symbolics
pub mod Nodes
pub mod Walks
