pub mod AllRules
pub mod RestedOn
