pub mod Chunk
pub mod Sound
pub mod Step
