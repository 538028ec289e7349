pub mod Invariants
pub mod Steps
pub mod Clauses
pub mod Members
pub mod Tests
