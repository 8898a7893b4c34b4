pub mod AscendingLemmas
pub mod CodeAt
pub mod SizeLemmas
pub mod Stating
pub mod NamedLemmas
