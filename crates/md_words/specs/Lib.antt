pub mod SuperWeirdWord
pub mod ArchaicUpperLower
pub mod Inner
