pub mod Lendable
