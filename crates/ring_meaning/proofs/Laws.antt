pub mod Calls
pub mod History
pub mod Record
pub mod Ring
pub mod Size
