pub mod Gathering
pub mod InFirstUse
pub mod Laying
pub mod Seeking
pub mod Walking
