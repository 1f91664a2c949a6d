pub mod Below
pub mod Size
