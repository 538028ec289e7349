pub mod Own
pub mod Values
pub mod Parts
pub mod GhostForms
pub mod Sequences
pub mod StatementForms
pub mod Items
