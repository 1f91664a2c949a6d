pub mod State
pub mod Opening
pub mod Feeding
pub mod Chunk
pub mod Closing
pub mod Line
pub mod Inner
