pub mod PartPlaces
pub mod ExplainedBounds
