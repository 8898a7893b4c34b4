-- Words that the contracts of inner functions alone cite.
pub mod Sizes
pub mod Listing
