pub mod Jaro
pub mod Similarity
pub mod Inner
