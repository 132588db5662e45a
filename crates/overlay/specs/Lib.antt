pub mod Refusals
pub mod Ledger
pub mod Judging
pub mod Calls
pub mod Receiving
pub mod Views
pub mod Tests
pub mod Laws
