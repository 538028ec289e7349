pub mod Known
pub mod Knowing
pub mod Joining
pub mod Guarding
pub mod Going
