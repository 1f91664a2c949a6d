pub mod Answer
pub mod Encoded
pub mod RoundTrips
