pub mod Numbers
pub mod Shifts
pub mod Group
