pub mod Allowed
pub mod Exprs
pub mod Between
pub mod Simple
pub mod Blocks
pub mod Items
pub mod Law
