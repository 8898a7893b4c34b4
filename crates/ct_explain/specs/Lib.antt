pub mod Parts
pub mod Explained
