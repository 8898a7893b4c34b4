pub mod ClassLemmas
pub mod RowLemmas
mod LeastLemmas
pub mod PairFaults
pub mod PartitionFaults
pub mod ProductCodes
pub mod ProductLemmas
