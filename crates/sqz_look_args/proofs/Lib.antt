mod CommandLemmas
mod RequestLemmas
pub mod LineLemmas
