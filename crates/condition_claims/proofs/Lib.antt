pub mod Settling
pub mod Each
pub mod Onward
pub mod Noted
