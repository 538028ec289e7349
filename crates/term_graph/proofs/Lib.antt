pub mod Chains
pub mod Graphs
pub mod Indexed
pub mod Stands
pub mod Trees
