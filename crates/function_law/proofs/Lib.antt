pub mod Given
pub mod Texts
pub mod Local
pub mod TextTests
pub mod Whole
