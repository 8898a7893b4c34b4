pub mod Mode
pub mod Program
pub mod Exit
pub mod Truth
pub mod Answer
pub mod Inside
