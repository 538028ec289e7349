pub mod Congruences
