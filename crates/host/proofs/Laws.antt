pub mod Accepted
pub mod Export
pub mod Host
pub mod Matches
