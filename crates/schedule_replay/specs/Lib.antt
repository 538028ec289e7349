pub mod Printing
pub mod Pieces
pub mod Records
pub mod ReplayText
pub mod Answers
pub mod Stages
pub mod Rows
pub mod RunsOut
