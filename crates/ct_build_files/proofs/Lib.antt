pub mod BuildFields
pub mod BuildForms
pub mod BuildAnswers
pub mod SoundBuilds
pub mod WrittenBuild
pub mod BuildRooms
mod PushedNumbers
mod ReadOperation
mod ReadPlaces
mod ReadSteps
mod PutFields
pub mod BuildKind
pub mod BuildChecks
