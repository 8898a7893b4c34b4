-- Words that the contracts of inner functions alone cite.
pub mod Rows
pub mod Pairs
