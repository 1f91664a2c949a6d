pub mod Above
pub mod Chunk
