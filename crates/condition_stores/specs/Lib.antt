pub mod Places
pub mod Objects
pub mod Exchanges
pub mod Members
pub mod Changes
