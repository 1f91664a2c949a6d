pub mod Check
pub mod Included
pub mod Languages
pub mod Letters
