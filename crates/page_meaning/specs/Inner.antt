pub mod Good
pub mod Tables
