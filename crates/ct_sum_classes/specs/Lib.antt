pub mod Inside
pub mod SumClass
