pub mod Made
pub mod Chosen
pub mod Making
pub mod Cited
