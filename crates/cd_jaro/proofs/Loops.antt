pub mod Matched
pub mod OutOfOrder
pub mod Place
