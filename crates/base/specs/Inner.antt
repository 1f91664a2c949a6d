pub mod All
pub mod Counted
pub mod First
pub mod Limits
pub mod LittleEndian
pub mod Numbers
