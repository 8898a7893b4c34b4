pub mod RestedOn
