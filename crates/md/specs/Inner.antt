pub mod Going
pub mod Looked
pub mod Ready
