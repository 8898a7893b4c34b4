pub mod OddLists
