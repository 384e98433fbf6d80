pub mod Compacted
pub mod Verdict
pub mod Correspondence
pub mod FixedPoint
pub mod Headline
pub mod FileRuns
pub mod Plans
pub mod Endings
