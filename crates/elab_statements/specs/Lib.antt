pub mod Forms
pub mod Rows
pub mod Settings
pub mod Shaped
