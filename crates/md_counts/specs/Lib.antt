pub mod TooManySymbolOrPunctuation
pub mod TooManyAccentuated
pub mod Unprintable
pub mod CjkInvalidStop
pub mod Inner
