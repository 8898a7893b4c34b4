-- Words that the contracts of inner functions alone cite.
pub mod Shifted
pub mod Translated
pub mod Rows
pub mod First
pub mod Span
pub mod Across
pub mod Within
pub mod Light
pub mod Groups
