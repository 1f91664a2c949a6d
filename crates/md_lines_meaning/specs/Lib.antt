pub mod Burst
pub mod Lines
pub mod Inner
