pub mod Operands
pub mod Wraps
pub mod Forks
pub mod Blocks
pub mod Threads
