pub mod Best
pub mod BitsOrder
pub mod Holding
pub mod Kept
pub mod Scores
pub mod Tallies
