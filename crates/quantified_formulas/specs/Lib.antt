pub mod Renumbering
pub mod Sorts
pub mod Forms
pub mod Bodies
