pub mod Lists
pub mod Surveys
pub mod Written
pub mod Counts
