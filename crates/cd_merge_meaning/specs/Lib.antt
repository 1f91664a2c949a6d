pub mod Entries
pub mod Merge
pub mod Answer
pub mod Inner
