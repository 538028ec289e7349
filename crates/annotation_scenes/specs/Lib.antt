pub mod Scenes
pub mod Quantifying
