pub mod Choices
pub mod Begins
pub mod Lists
pub mod Written
pub mod Promises
pub mod Params
pub mod Flattened
pub mod MemberKinds
