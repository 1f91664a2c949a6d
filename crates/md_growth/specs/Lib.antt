pub mod Growth
pub mod Text
pub mod Inner
