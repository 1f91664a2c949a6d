pub mod Cut
pub mod Choose
pub mod Inner
