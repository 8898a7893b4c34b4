pub mod OddSum
