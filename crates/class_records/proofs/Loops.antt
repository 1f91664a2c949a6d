pub mod Halving
pub mod InOrder
