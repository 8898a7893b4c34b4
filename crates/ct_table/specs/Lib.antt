pub mod Table
pub mod Removal
pub mod Inside
pub mod Closing
