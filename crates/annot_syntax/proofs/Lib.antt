pub mod Fronts
pub mod Standing
pub mod Shapes
pub mod Found
