pub mod Laws
pub mod ApartCode
pub mod Choices
