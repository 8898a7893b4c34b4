mod RuleSides
mod WordLemmas
mod FailedLines
mod LineSteps
mod LimitLemmas
mod StatedSteps
pub mod StatedWords
pub mod ReadingLemmas
pub mod VerdictLemmas
pub mod Documents
pub mod Truths
