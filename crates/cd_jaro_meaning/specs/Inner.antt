pub mod Jaro
pub mod Similarity
