-- Words that are no part of what a document means.
pub mod Room
