pub mod Layout
pub mod Numbering
pub mod Places
pub mod Stacks
pub mod Walk
