pub mod Counts
pub mod Written
