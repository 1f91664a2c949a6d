pub mod Looking
pub mod Splitting
