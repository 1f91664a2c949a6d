pub mod Causes
pub mod KeptMatches
pub mod Coherence
pub mod Inner
