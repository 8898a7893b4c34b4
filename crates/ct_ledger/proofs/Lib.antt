pub mod Reaching
mod LeftSupports
mod AddedPieces
