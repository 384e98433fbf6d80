pub mod InOrder
pub mod Passes
