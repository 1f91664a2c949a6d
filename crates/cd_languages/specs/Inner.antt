pub mod Languages
pub mod Permitted
