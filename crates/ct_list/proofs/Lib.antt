mod Making
mod RowCodes
mod PartCodes
mod KeptCodes
mod LowerLines
mod Following
mod GivenCodes
mod Walk
