pub mod Lent
pub mod Plain
pub mod Scan
