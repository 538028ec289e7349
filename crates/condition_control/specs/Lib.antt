pub mod Forms
pub mod Forks
