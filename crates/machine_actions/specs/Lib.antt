pub mod Running
pub mod Enabled
pub mod Inside
pub mod RunsOut
