pub mod Gathering
pub mod Halving
pub mod Settling
pub mod Sizing
