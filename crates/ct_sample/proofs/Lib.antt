pub mod WithoutDocuments
mod DrawnClasses
pub mod DrawnSound
pub mod Applying
pub mod Running
pub mod Stepping
pub mod Summaries
mod StepIds
pub mod Truths
