pub mod Heaps
pub mod Expressions
pub mod Invariants
pub mod Ownership
pub mod Records
