pub mod Rows
pub mod Alike
pub mod ByParts
pub mod Numbering
pub mod Collecting
pub mod PartCounts
