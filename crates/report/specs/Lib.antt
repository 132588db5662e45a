pub mod Hex
pub mod Ciphers
pub mod Seal
pub mod Calls
pub mod Shown
pub mod Arguments
pub mod Vector
