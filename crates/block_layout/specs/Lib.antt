pub mod Trees
pub mod Layout
pub mod Loading
pub mod Space
