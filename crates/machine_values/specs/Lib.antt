pub mod Spots
pub mod Answers
pub mod Items
pub mod Testing
