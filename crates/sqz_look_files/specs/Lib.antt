pub mod Failures
pub mod Checks
pub mod Damaged
pub mod Verdicts
pub mod Warnings
pub mod Mending
