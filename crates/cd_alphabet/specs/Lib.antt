pub mod Alphabet
pub mod Candidates
pub mod Inner
