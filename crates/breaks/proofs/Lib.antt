pub mod Held
pub mod Bits
pub mod Line
pub mod Breaks
