pub mod AsRounded
pub mod Finding
pub mod Keys
pub mod Lists
pub mod Matches
pub mod Records
pub mod Search
