pub mod SuspiciousRange
pub mod SuspiciousDuplicateAccent
pub mod Inner
