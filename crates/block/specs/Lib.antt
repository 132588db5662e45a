pub mod Bits
pub mod Arith
pub mod Width
pub mod Blocks
pub mod Same
pub mod Laws
pub mod BitsLemmas
pub mod WidthLemmas
