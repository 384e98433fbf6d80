pub mod CompactionLemmas
pub mod RunLemmas
pub mod Uniqueness
mod EndingLemmas
pub mod FixedPointLemmas
pub mod CorrespondenceLemmas
