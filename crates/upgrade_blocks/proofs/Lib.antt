pub mod Parts
pub mod Counts
pub mod Numbers
pub mod Numbering
pub mod Nodes
pub mod Placing
pub mod Held
