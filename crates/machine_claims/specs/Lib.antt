pub mod Claiming
pub mod Calls
pub mod RunsOut
