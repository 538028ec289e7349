pub mod Answers
pub mod Plans
pub mod RunsOut
pub mod Settling
pub mod Starting
pub mod States
