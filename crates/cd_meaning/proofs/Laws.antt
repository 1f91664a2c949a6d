pub mod Accepted
pub mod Causes
pub mod Coherence
pub mod Fits
pub mod ForReaders
pub mod Kept
pub mod Later
pub mod Reading
