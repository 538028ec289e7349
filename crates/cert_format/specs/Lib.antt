pub mod Derivations
pub mod Text
