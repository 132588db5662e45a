pub mod Refusals
pub mod Meaning
pub mod Complement
pub mod Layers
pub mod Undoing
