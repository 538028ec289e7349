pub mod References
pub mod Pieces
pub mod Turns
pub mod Loops
pub mod Clear
pub mod Written
pub mod Taken
pub mod TextLaws
