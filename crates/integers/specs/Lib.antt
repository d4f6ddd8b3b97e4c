pub mod Sums
pub mod Near
pub mod All
