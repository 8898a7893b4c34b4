-- Words that the contracts of inner functions alone cite.
pub mod Kept
pub mod Making
pub mod Unmarked
