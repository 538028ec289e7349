pub mod Annotations
pub mod Changes
pub mod Clean
pub mod Columns
pub mod Instances
pub mod Reading
pub mod Walking
