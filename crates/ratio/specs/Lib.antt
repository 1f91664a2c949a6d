pub mod Fraction
pub mod Eight
pub mod Rounded
pub mod Parts
pub mod Finite
pub mod CutOffs
pub mod Shown
pub mod Inner
