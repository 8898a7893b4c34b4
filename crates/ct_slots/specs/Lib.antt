pub mod Number
pub mod Worklist
pub mod Places
pub mod Inside
