pub mod Filling
pub mod Listing
