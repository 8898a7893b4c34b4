pub mod Operation
pub mod BuildFields
pub mod BuildSchema
pub mod BuildAnswer
pub mod WrittenBuild
pub mod BuildKind
pub mod BuildFaultText
