pub mod Made
pub mod Texts
pub mod Judged
