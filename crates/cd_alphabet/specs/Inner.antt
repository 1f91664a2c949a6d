pub mod Key
pub mod Sieve
