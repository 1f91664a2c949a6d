pub mod Candidates
pub mod Shares
