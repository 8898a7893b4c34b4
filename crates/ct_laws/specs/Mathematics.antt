pub mod KnownPartitions
pub mod RunExamples
