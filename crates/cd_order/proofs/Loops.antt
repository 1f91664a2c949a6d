pub mod Arranging
pub mod Least
