pub mod Alone
pub mod Cases
