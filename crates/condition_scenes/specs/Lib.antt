pub mod Conjuncts
