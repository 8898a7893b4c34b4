pub mod Form
pub mod Command
pub mod Input
pub mod Submission
