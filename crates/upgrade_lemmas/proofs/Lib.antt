pub mod Lists
pub mod Counting
pub mod Firsts
pub mod Placing
pub mod Numbering
pub mod LemmaOver
pub mod StepNumbers
pub mod Citing
