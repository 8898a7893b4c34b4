-- Words that the contracts of inner functions alone cite.
pub mod Steps
pub mod StatedRule
pub mod StatedLine
pub mod Read
pub mod Step
pub mod Reading
pub mod Verdict
