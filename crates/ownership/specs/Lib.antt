pub mod Effects
pub mod ActionEffects
pub mod Ranks
pub mod Searching
