pub mod Nearest
pub mod Inner
