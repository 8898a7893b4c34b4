-- Words that the type itself alone cites.
pub mod IdBytes
