pub mod Ahead
pub mod Ascii
pub mod Runs
