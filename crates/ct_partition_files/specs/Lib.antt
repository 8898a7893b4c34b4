pub mod Lists
pub mod Partition
pub mod Pairs
pub mod Product
pub mod PartitionKind
pub mod ProductKind
pub mod PartitionFaultText
