pub mod Area
pub mod Cases
pub mod Unclassed
