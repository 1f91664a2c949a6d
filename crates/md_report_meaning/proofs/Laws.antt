pub mod Tally
pub mod Sums
pub mod Report
pub mod Text
pub mod Longest
pub mod Parts
pub mod Answer
