pub mod Arranged
pub mod Chosen
pub mod Sorted
pub mod Sorting
