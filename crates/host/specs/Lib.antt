pub mod Chosen
pub mod Compact
pub mod Host
pub mod Matches
pub mod Running
pub mod Why
