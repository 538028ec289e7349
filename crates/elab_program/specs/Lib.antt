pub mod Functions
pub mod Views
pub mod Walks
