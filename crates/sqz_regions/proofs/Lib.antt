pub mod CountLemmas
pub mod CutLemmas
pub mod RegionLemmas
pub mod RisingLemmas
pub mod SumLemmas
pub mod EntryLemmas
pub mod ListedLemmas
