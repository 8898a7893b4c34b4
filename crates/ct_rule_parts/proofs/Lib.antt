pub mod Constructions
pub mod Lawful
pub mod SlotLemmas
pub mod PlainEntries
pub mod PlainNumbers
pub mod EntryLists
pub mod WeightEntries
pub mod DualLemmas
pub mod Places
pub mod GetLemmas
mod LesserLists
