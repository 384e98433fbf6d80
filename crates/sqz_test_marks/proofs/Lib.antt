pub mod InOrderLemmas
pub mod PassLemmas
