pub mod Named
pub mod KindParts
pub mod Ascending
pub mod Sound
