pub mod Parts
pub mod RowForms
pub mod Forms
pub mod Conjuncts
pub mod Views
