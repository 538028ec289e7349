pub mod Frames
pub mod RunsOut
pub mod Scenes
pub mod Turns
