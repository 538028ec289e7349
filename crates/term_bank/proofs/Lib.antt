pub mod Banks
pub mod Literals
