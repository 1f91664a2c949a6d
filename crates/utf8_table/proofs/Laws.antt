pub mod ByLead
pub mod Complete
pub mod Encoding
pub mod Sound
