pub mod Settling
pub mod Threads
pub mod Stepping
pub mod Starting
