pub mod PartitionPlaces
pub mod PartLemmas
mod LeftOut
mod AlongPass
mod BuildPlaces
mod Putting
