pub mod Out
pub mod Inspectors
