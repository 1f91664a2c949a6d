pub mod Languages
pub mod Letters
pub mod Check
pub mod Included
pub mod Inner
