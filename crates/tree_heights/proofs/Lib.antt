pub mod Lists
pub mod Vectors
pub mod Measures
pub mod HeightRows
pub mod PartRows
