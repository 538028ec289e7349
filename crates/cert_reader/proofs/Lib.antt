pub mod Completeness
pub mod Decoded
pub mod Pieces
pub mod Prefixes
pub mod Sessions
pub mod Soundness
pub mod Texts
