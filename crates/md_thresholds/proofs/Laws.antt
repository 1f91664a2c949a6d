pub mod Running
pub mod Thresholds
pub mod UpTo
pub mod Utf8
