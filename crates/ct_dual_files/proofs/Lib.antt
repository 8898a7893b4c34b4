mod TextParts
pub mod DualForms
pub mod DualRooms
pub mod DualSchemas
pub mod DualKind
mod GivenDuals
