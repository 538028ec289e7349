pub mod Terms
pub mod Annotations
pub mod Ranges
pub mod Expressions
pub mod Clauses
pub mod Bodies
pub mod Statements
pub mod Numbers
