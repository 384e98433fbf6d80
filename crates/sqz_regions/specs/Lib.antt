pub mod Places
pub mod Regions
pub mod Cuts
pub mod Bases
pub mod Ends
pub mod Entries
