pub mod Program
pub mod Numerals
pub mod Line
pub mod Inner
