pub mod Scoring
pub mod Lines
