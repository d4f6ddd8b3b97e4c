pub mod Laws
pub mod Stretches
pub mod Slots
pub mod Clear
