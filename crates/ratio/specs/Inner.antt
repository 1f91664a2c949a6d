pub mod Eight
pub mod Finite
pub mod Fraction
