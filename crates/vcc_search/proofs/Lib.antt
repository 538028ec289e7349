pub mod Parts
pub mod Prover
pub mod LineTexts
