pub mod Fine
pub mod FormRows
pub mod FormLaw
