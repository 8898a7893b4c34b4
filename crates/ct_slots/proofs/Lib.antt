pub mod NumberLemmas
pub mod WorklistLemmas
pub mod MarkedLemmas
pub mod PlacesLemmas
pub mod BetterLemmas
