pub mod Plain
pub mod Slots
pub mod Differences
