pub mod Alphabet
pub mod Sieve
