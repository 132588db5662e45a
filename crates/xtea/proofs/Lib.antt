pub mod Turns
pub mod Chunks
