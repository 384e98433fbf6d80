pub mod CheckLemmas
pub mod DamageLemmas
pub mod WarningLemmas
