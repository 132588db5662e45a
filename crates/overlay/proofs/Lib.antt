pub mod Spans
pub mod Laws
