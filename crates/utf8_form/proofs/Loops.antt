pub mod Checking
pub mod Counting
