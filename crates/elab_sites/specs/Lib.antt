pub mod Bodies
pub mod Settings
pub mod Views
