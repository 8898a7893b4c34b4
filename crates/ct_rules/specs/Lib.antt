pub mod Rule
pub mod Derivation
pub mod Closed
pub mod Listing
pub mod Removal
pub mod Inside
