pub mod Turns
pub mod Expansion
pub mod Examples
