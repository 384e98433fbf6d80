pub mod Bytes
pub mod Names
pub mod Groups
pub mod Histogram
pub mod Keys
pub mod Tallies
pub mod Shares
