pub mod Counts
pub mod Parts
pub mod Padding
pub mod Memory
pub mod Writing
