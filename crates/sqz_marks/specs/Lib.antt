pub mod Core
pub mod Lawful
pub mod Table
pub mod Claims
