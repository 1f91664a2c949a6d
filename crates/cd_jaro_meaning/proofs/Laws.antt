pub mod Bounds
pub mod Held
pub mod Jaro
pub mod Matching
pub mod Place
pub mod Similarity
pub mod WorkedExamples
