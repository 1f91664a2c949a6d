pub mod Bounds
pub mod Detectors
pub mod Inner
