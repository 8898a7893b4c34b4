-- Words that the contracts of inner functions, and the types themselves, alone cite.
pub mod Buffer
pub mod Filling
pub mod Intake
pub mod NextLine
pub mod Room
pub mod Settled
pub mod WholeInput
