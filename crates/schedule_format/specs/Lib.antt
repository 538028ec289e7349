pub mod Schedules
pub mod Text
pub mod Lines
pub mod Reading
pub mod Laws
pub mod Rows
