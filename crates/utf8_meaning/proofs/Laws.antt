pub mod Answer
pub mod Ascii
pub mod Encoded
pub mod Going
pub mod Places
pub mod Read
pub mod Text
