pub mod Answer
pub mod Ascii
pub mod Readable
pub mod Text
