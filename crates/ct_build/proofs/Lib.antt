pub mod Sound
pub mod StepLemmas
pub mod BuiltCodes
pub mod Failures
pub mod WordByWord
pub mod BuildFaults
pub mod RightBuilds
