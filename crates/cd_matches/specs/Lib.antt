pub mod Matches
pub mod Inner
