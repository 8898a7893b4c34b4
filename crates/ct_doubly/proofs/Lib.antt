pub mod Halves
pub mod CountedWords
pub mod SquareCounts
pub mod FewSquares
pub mod DoublyOnePlace
pub mod Words
pub mod RoundBounds
pub mod DoublyTrue
mod Tables
