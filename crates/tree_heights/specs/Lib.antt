pub mod Heights
pub mod Parts
pub mod Laws
