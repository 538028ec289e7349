pub mod Conclusions
pub mod Lemmas
pub mod Upgrade
pub mod Held
