pub mod Proposal
pub mod Reply
pub mod Truth
pub mod Inside
