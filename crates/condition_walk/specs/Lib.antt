pub mod Items
pub mod Receiving
