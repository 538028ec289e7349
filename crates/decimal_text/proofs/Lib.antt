pub mod First
pub mod Words
pub mod Numbers
pub mod Whole
