pub mod Ahead
pub mod Scenes
pub mod Turning
pub mod Calling
pub mod Frames
pub mod Statements
