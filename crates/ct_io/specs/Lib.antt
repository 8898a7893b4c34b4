pub mod Buffered
pub mod Faults
pub mod Inside
pub mod Reader
pub mod Told
pub mod Lines
