pub mod Text
pub mod Refusals
pub mod LongReply
pub mod Inside
