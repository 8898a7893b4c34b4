pub mod OnLiterals
pub mod Citing
pub mod DualSupports
pub mod DualReaching
pub mod OddSizes
pub mod LocalBounds
pub mod OwnReasons
pub mod Refusing
pub mod Accepted
pub mod PartitionReasons
pub mod ProductReasons
pub mod WrongIds
pub mod BuildReasons
pub mod WordReasons
pub mod DualReasons
pub mod Says
mod SmallEntries
mod RuleTexts
mod FewLines
mod LineTexts
mod PrintedLines
mod LineSteps
mod BlockSteps
mod PartsBefore
mod PrintedPieces
mod ReadyLines
pub mod PrintedDerivations
mod EqualBounds
mod OneLine
mod WordAlone
mod ShownReplies
mod Columns
mod DumpPieces
mod ProposedPieces
mod VerifiedReplies
pub mod FindIds
pub mod AcceptedProposals
pub mod Alike
pub mod Uniqueness
pub mod ReasonLemmas
pub mod GrowthLemmas
pub mod GivenDuals
pub mod KnownClaims
mod Mathematics
mod ToldBytes
