pub mod Reckoning
pub mod Desk
pub mod Restoring
pub mod Views
