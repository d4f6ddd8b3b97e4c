pub mod Quality
pub mod Slots
pub mod AsCoded
