pub mod Pmac
pub mod Stored
pub mod Asking
pub mod Sealing
pub mod Cases
pub mod Edits
pub mod Prices
pub mod Recovery
