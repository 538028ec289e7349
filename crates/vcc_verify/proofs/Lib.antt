pub mod Fronts
pub mod Cuts
pub mod Findings
pub mod Turns
pub mod Rounds
pub mod Endings
pub mod Heads
pub mod Valid
