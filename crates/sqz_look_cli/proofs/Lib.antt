mod ComparisonLemmas
mod EndingLemmas
mod ObjectLemmas
