pub mod Lookup
pub mod Check
pub mod Pairs
pub mod Inner
