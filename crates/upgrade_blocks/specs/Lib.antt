pub mod Parameters
pub mod Marks
pub mod Trees
pub mod Nodes
