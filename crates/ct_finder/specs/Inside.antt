pub mod Numbers
pub mod Pivot
pub mod Rows
pub mod Step
