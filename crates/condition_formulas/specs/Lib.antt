pub mod Standing
pub mod Symbolics
pub mod Walks
