pub mod Words
pub mod Refusals
pub mod Apart
pub mod Languages
pub mod LockInstances
pub mod BagInstances
pub mod Laws
