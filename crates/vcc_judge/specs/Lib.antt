pub mod Faults
pub mod Remaining
pub mod Shows
pub mod Verdicts
pub mod Trials
pub mod Laws
