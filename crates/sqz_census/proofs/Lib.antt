pub mod RowLemmas
pub mod CensusLemmas
pub mod Uniqueness
pub mod SumLemmas
pub mod TextLemmas
