pub mod Dual
pub mod Check
pub mod Bound
pub mod Local
pub mod Form
pub mod Examples
pub mod Inside
