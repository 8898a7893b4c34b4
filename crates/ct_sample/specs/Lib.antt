pub mod Random
pub mod Drawn
pub mod Command
pub mod Run
pub mod Summary
pub mod Examples
pub mod Truth
pub mod Inside
