pub mod SuspiciousDuplicateAccent
pub mod SuspiciousRange
