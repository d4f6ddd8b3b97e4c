pub mod Plain
pub mod Differences
