pub mod Text
pub mod Answer
pub mod Read
pub mod Inner
