pub mod Taken
pub mod Unclassed
pub mod Accents
pub mod Inner
