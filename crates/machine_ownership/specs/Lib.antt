pub mod Callees
pub mod Items
pub mod Owned
pub mod Threads
pub mod RunsOut
