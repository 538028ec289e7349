pub mod Scenes
pub mod Answers
pub mod Quantified
