mod Documents
pub mod StepLemmas
pub mod OneAnswer
pub mod FieldLemmas
pub mod WordsLemmas
pub mod MemberLemmas
pub mod WordTexts
pub mod IdTexts
pub mod FormLemmas
pub mod TextLengths
pub mod RoomLemmas
mod CiteTexts
pub mod CiteLemmas
pub mod LastLemmas
pub mod SchemaLemmas
pub mod EntryForms
pub mod WrittenSchema
pub mod WrittenRooms
pub mod CitedTables
pub mod CitedSchema
pub mod PushedValues
pub mod Reserved
pub mod ReadLists
mod ReadSteps
mod TextValues
pub mod CiteRooms
