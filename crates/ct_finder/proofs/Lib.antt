pub mod Divisors
pub mod EuclidRuns
pub mod Entries
pub mod Crossed
pub mod Sums
pub mod TurnedTableaus
pub mod Places
pub mod PlaceEntries
pub mod BasicPivots
pub mod Ends
pub mod BasicRuns
pub mod RunScales
pub mod RunPairs
pub mod RunPoints
pub mod RunPrimals
pub mod RunShown
pub mod NarrowCosts
pub mod RunDuals
pub mod Ones
mod Written
mod CrossedRows
mod Entering
mod Before
mod Best
mod PivotedRows
mod Ready
mod Steps
pub mod OpeningLemmas
pub mod PlaceLemmas
pub mod RangeLemmas
pub mod ReadingLemmas
pub mod Schemes
pub mod FoundLemmas
