pub mod TableLemmas
mod UnnamedPlaces
pub mod BaseLemmas
pub mod MovedPlaces
mod MovedLists
pub mod WalkLemmas
pub mod LeftLemmas
pub mod LoweredKept
pub mod MoreLines
pub mod RemovalLemmas
pub mod MoreLemmas
pub mod PlacedSupports
pub mod FollowLemmas
pub mod CallLemmas
mod ExchangeLemmas
mod LeftOut
pub mod LineByLemmas
pub mod GroundWithin
pub mod SlackLemmas
pub mod TurnLemmas
pub mod Failures
