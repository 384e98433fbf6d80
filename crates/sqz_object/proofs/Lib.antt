pub mod ChunkLemmas
pub mod PartitionLemmas
pub mod RankedLemmas
pub mod WordLemmas
