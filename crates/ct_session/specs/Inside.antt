-- Words that the contracts of inner functions alone cite.
pub mod State
pub mod Writing
pub mod Serving
