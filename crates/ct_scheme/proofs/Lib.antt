pub mod JohnsonSums
