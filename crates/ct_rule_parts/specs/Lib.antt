pub mod Support
pub mod Slot
pub mod Parts
pub mod Entries
pub mod Local
