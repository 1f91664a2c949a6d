pub mod Accents
pub mod Filling
