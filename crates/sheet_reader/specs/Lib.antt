pub mod AsCoded
pub mod Reading
