pub mod PutLemmas
pub mod GroundLemmas
pub mod GroundBest
pub mod GivenLemmas
pub mod StartLemmas
pub mod KeptLemmas
pub mod LineLemmas
