pub mod PlaceSums
pub mod SumClasses
pub mod SizeLemmas
pub mod LargestLemmas
pub mod ListingLemmas
