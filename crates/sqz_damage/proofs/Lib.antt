pub mod ReadingLemmas
pub mod StepLemmas
pub mod VoteLemmas
pub mod WalkLemmas
pub mod FillLemmas
pub mod FitLemmas
pub mod SplitLemmas
pub mod WayLemmas
mod FoundLemmas
mod NearLemmas
pub mod DataLemmas
mod MendLemmas
pub mod SoundnessLemmas
pub mod HeaderLemmas
pub mod PatchLemmas
pub mod PushLemmas
pub mod NilLemmas
mod RepairLemmas
