pub mod BufferedLemmas
mod Copies
pub mod FaultsLemmas
mod FeedLemmas
pub mod InputLemmas
mod IntakeLemmas
mod NextLineLemmas
pub mod ReaderLemmas
pub mod ToldLemmas
pub mod LinesLemmas
mod HeldLemmas
mod FillLemmas
mod FailingCalls
