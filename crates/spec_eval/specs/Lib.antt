pub mod Scenes
pub mod Answers
