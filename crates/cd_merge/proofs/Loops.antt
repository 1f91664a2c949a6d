pub mod Lengths
pub mod Finding
pub mod Summing
pub mod Listing
pub mod Writing
