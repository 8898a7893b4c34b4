pub mod Asked
pub mod BoundLemmas
pub mod Answering
pub mod Existence
pub mod Taking
pub mod FewLeft
pub mod Serving
pub mod Endings
pub mod Truths
pub mod TrueReasons
mod PassingOver
mod Gathering
mod LineEndings
