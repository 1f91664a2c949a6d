pub mod DoubledAsSource
pub mod SuspiciousDuplicateAccent
pub mod SuspiciousRange
