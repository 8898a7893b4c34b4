mod ShiftedPairs
mod NearLemmas
mod WithinLemmas
mod RowLemmas
pub mod BlockLemmas
pub mod SpanLemmas
pub mod CosetLemmas
mod LightLemmas
mod GroupLemmas
