pub mod Places
pub mod Filling
pub mod Walking
