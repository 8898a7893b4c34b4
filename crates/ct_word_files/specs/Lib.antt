pub mod Words
pub mod Cosets
pub mod WordsKind
pub mod CosetsKind
pub mod WordFaultText
