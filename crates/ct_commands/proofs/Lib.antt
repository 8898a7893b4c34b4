pub mod Forms
pub mod SpacedWords
pub mod DocumentLines
pub mod Submissions
pub mod Inputs
pub mod WrittenSubmissions
pub mod Naming
