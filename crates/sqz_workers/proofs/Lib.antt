mod TurnLemmas
pub mod GainLemmas
pub mod ShareLemmas
pub mod RemainingLemmas
