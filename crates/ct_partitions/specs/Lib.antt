pub mod Check
pub mod Product
pub mod Inside
