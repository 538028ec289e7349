pub mod SafeByLabels
pub mod Shared
