mod AtEvidence
mod PutTexts
mod ReadSteps
mod MostBytes
mod KindLaws
pub mod DocumentAnswers
pub mod Evidences
pub mod Documents
pub mod Written
pub mod Lengths
pub mod WrittenDocuments
pub mod SameByKind
pub mod StatedByKind
pub mod GivesByKind
pub mod OwnReasons
pub mod Checking
pub mod UnbrokenTexts
pub mod RefusalTexts
pub mod PartIds
