pub mod Sums
pub mod Calls
