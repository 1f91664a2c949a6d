pub mod Good
pub mod Keys
