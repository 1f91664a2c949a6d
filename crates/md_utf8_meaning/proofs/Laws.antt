pub mod Accepted
pub mod ScoreUtf8
