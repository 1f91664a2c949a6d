pub mod ArchaicUpperLower
pub mod SuperWeirdWord
