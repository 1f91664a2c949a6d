pub mod Layer
pub mod Text
