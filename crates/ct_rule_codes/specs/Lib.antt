pub mod CodeEntry
