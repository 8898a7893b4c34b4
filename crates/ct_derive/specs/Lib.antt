pub mod Explanation
pub mod Pieces
pub mod Derivation
pub mod Pruning
pub mod Check
pub mod Text
pub mod Inside
pub mod Listed
