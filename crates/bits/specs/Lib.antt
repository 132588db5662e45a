pub mod Blocks
pub mod Memory
