pub mod Sorts
pub mod Kit
pub mod Rows
pub mod Instances
