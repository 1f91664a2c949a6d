pub mod Laying
pub mod Inverting
pub mod Copying
pub mod Finding
pub mod Marking
