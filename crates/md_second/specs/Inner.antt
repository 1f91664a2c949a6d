pub mod After
pub mod Lists
pub mod Reading
pub mod Listed
