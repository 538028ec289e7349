pub mod Renaming
pub mod Sorting
pub mod Counting
pub mod Rows
