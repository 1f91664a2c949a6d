pub mod Detectors
pub mod Runs
