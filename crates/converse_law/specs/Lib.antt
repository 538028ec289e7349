pub mod Direct
pub mod Standing
pub mod Laws
pub mod Release
pub mod Samples
