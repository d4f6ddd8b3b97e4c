pub mod Ranges
pub mod Rules
pub mod AsCoded
