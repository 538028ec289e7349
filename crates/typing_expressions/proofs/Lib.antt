pub mod FoundLaws
pub mod Judgements
pub mod Rows
