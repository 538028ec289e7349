pub mod Steps
pub mod Walks
pub mod States
pub mod Emitters
pub mod Codes
