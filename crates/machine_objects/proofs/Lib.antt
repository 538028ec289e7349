pub mod Landing
pub mod Checks
pub mod Vacant
pub mod Contents
pub mod Mallocs
pub mod Storing
