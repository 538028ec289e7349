pub mod Parts
pub mod Programs
pub mod Steps
pub mod Walks
