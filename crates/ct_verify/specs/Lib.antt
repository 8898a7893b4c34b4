pub mod Heading
pub mod Stated
pub mod Document
pub mod Text
pub mod Verification
pub mod Inside
