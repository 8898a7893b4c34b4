pub mod Id
pub mod Cite
pub mod Inside
