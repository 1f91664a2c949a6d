pub mod Fields
pub mod Nearest
