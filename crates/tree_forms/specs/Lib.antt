pub mod InForm
pub mod Law
