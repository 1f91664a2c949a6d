pub mod Upto
pub mod Counting
pub mod Readers
pub mod Lists
pub mod Comparing
