pub mod Bounds
pub mod Chunk
pub mod Closing
pub mod Feeding
pub mod Line
pub mod Opening
pub mod State
