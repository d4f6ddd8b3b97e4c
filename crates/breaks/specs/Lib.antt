pub mod Held
pub mod Line
pub mod Breaks
