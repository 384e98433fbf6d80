pub mod Turns
pub mod Gains
pub mod Teams
