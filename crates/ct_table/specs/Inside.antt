-- Words that the contracts of inner functions alone cite.
pub mod Walk
pub mod Removing
pub mod Starting
pub mod Exchanged
pub mod Turn
