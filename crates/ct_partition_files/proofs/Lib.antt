mod ListLemmas
mod ReadClasses
mod ReadFields
mod Classes
mod PlaceLemmas
pub mod CountLemmas
mod PairLemmas
mod WrittenLists
pub mod PartitionAnswers
pub mod PartitionSchema
pub mod ProductSchema
pub mod PartitionKind
pub mod ProductKind
pub mod ProductChecks
