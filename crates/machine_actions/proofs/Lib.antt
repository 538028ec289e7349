pub mod Fields
pub mod Tested
pub mod Closing
pub mod ListedObjects
pub mod Inside
pub mod BlockEnds
