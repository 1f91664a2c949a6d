pub mod Lists
pub mod Page
pub mod Tables
pub mod Answer
pub mod RoundTrips
