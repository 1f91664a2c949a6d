pub mod Holding
pub mod Known
pub mod Standing
