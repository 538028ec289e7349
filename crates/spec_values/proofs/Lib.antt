pub mod Members
pub mod Filling
pub mod Deciding
pub mod Objects
pub mod Conjuncts
