pub mod Sums
pub mod Binomials
pub mod Words
pub mod PairTotals
pub mod Alternating
pub mod PairLists
