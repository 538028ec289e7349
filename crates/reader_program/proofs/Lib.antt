pub mod ItemKinds
pub mod Attributed
pub mod Sequences
pub mod Fronts
