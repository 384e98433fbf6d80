pub mod SetLemmas
mod InsideLemmas
