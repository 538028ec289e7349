pub mod Premises
pub mod Law
pub mod Rows
pub mod Refuted
