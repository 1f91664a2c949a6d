pub mod Accepted
pub mod Counts
pub mod Default
pub mod DemandThree
pub mod Lent
pub mod MessRatio
pub mod Plain
pub mod Scan
