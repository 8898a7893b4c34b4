-- How the best bound of a slot is pulled, and what is marked.
pub mod Pulled
pub mod Marking
