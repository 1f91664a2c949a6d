pub mod Chosen
pub mod Sorting
pub mod Inner
