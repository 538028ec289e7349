pub mod Sides
pub mod Views
pub mod Rights
