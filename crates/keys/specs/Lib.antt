pub mod Refusals
pub mod Digits
pub mod Entries
pub mod Keys
