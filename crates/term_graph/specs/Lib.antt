pub mod Graph
pub mod Index
