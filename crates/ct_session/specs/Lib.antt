pub mod Reply
pub mod Run
pub mod Truth
pub mod TrueLines
pub mod Serve
pub mod Ending
pub mod Inside
