pub mod Scenes
pub mod Done
