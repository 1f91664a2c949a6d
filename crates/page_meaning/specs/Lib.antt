pub mod Page
pub mod Answer
pub mod RoundTrips
pub mod Inner
