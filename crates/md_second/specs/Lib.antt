pub mod Second
pub mod Inner
