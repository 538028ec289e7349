pub mod FieldReads
pub mod Plans
pub mod FineSteps
pub mod Laws
pub mod Rows
pub mod Samples
