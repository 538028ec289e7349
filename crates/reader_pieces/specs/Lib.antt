pub mod Annotations
pub mod Shapes
