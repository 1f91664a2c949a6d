pub mod Few
pub mod Joined
pub mod Joining
pub mod Layers
pub mod Numbers
pub mod Split
