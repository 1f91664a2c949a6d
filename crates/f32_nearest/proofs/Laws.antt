pub mod Digits
pub mod Fields
pub mod Halves
pub mod Nearest
pub mod NearestBits
pub mod Range
pub mod Steps
