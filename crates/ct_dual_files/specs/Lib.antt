pub mod Fields
pub mod Dual
pub mod DualKind
pub mod DualFaultText
