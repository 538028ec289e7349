pub mod Respect
