pub mod Accesses
pub mod Races
pub mod Laws
pub mod Rows
