pub mod Doubly
pub mod Inside
