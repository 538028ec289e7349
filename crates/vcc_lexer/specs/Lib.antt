pub mod Classes
pub mod Places
pub mod First
pub mod NumberTexts
pub mod Gaps
pub mod Bad
pub mod Steps
pub mod Texts
