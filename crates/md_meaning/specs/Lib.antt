pub mod Text
pub mod Scan
pub mod MessRatio
pub mod DemandThree
pub mod Counts
pub mod Values
pub mod Inner
