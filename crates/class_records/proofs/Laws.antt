pub mod Fields
pub mod Masks
pub mod Records
pub mod Rules
