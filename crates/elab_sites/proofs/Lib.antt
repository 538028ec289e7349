pub mod Added
pub mod ByBodies
pub mod Declared
pub mod Standing
pub mod Telling
