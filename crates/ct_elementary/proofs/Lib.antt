pub mod FarWords
pub mod Entries
pub mod Averages
pub mod Halves
pub mod PlotkinRule
