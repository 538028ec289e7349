pub mod Repeated
pub mod Declaring
pub mod Firsts
pub mod Steps
