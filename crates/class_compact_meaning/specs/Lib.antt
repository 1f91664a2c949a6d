pub mod Form
pub mod Unpacked
pub mod Check
pub mod Packed
pub mod Calls
pub mod Inner
