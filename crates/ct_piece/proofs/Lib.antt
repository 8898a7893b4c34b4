pub mod CodeLemmas
pub mod MakingLemmas
pub mod LeavingLemmas
pub mod StandingLemmas
pub mod SupportLemmas
pub mod KeptLemmas
pub mod Accepting
pub mod Admitting
pub mod NoMemory
pub mod EarlierParts
pub mod AlongLemmas
pub mod TakenAlong
pub mod RefusedPieces
mod PutItems
