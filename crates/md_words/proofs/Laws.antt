pub mod ArchaicAsSource
pub mod ArchaicUpperLower
pub mod SuperWeirdWord
