pub mod Letters
pub mod Inner
