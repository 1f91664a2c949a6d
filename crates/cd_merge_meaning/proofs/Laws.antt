pub mod Check
pub mod Means
pub mod Keys
pub mod Answer
pub mod Merge
pub mod One
