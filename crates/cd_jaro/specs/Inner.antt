pub mod OutOfOrder
pub mod Place
