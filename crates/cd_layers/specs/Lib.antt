pub mod Layers
pub mod Inner
