pub mod Greatest
pub mod Numbered
pub mod Reason
pub mod ReasonUtf8
pub mod Inner
