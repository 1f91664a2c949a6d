pub mod Layout
pub mod Parts
