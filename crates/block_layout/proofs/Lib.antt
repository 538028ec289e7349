pub mod Lists
pub mod Named
pub mod Growing
pub mod Sorted
pub mod Spaces
pub mod Puts
pub mod Laying
