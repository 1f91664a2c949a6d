pub mod After
pub mod Causes
pub mod Comparable
pub mod Reading
