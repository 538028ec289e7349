pub mod Violations
pub mod Judging
pub mod Views
