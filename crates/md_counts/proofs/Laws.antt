pub mod CjkInvalidStop
pub mod SymbolsAsSource
pub mod TooManyAccentuated
pub mod TooManySymbolOrPunctuation
pub mod Unprintable
