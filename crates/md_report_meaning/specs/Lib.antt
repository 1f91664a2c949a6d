pub mod Rows
pub mod Bins
pub mod Text
pub mod Report
pub mod Inner
