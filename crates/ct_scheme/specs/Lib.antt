pub mod Numbers
pub mod Johnson
