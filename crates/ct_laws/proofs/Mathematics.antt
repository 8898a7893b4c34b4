pub mod Pairings
pub mod OrderLemmas
pub mod SumLemmas
