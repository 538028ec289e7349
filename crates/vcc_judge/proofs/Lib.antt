pub mod Lists
pub mod Remaining
pub mod Shown
pub mod Verified
pub mod Trials
