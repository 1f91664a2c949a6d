pub mod Form
pub mod Gathered
pub mod Links
pub mod Sound
