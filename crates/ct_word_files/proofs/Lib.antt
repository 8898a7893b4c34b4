pub mod WordsAnswers
pub mod CosetsAnswers
pub mod WordsSchema
pub mod CosetsSchema
pub mod WordsKind
pub mod CosetsKind
mod WordSteps
