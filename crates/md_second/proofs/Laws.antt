pub mod Reading
pub mod After
pub mod Same
pub mod Agreed
