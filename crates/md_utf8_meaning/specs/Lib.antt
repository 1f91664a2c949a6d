pub mod ScoreUtf8
