pub mod Slips
pub mod Reckoned
pub mod Simulation
pub mod Histories
pub mod Restored
