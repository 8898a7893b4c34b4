pub mod Primal
