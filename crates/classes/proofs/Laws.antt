pub mod Check
pub mod Lookup
pub mod Tables
