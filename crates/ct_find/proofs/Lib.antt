mod PlainTables
pub mod Existence
mod EntryLemmas
mod ReplyLemmas
mod FoundLemmas
pub mod FoundDuals
pub mod Truths
