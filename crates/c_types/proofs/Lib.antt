pub mod Faults
pub mod Formed
