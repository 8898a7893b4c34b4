pub mod PrunedLines
pub mod MarkedLines
pub mod MergedLines
pub mod ClaimedLines
pub mod NeededPieces
pub mod NumberedLines
pub mod CheckedLines
pub mod ExplanationLaws
pub mod NeededExist
mod TextParts
mod PlacesBelow
mod ListedItems
