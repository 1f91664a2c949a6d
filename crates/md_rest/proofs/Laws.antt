pub mod Rest
pub mod Whole
