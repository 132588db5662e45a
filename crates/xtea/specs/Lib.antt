pub mod Cycles
pub mod Xtea
pub mod Blocks
pub mod Undo
