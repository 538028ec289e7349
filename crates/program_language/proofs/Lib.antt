pub mod Finding
pub mod Filled
pub mod Examples
