pub mod Comparison
pub mod Each
pub mod Objects
pub mod Endings
pub mod Lines
