pub mod Packed
pub mod Words
