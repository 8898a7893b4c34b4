pub mod WeakDuality
pub mod PrimalFaults
