pub mod Growth
pub mod Last
