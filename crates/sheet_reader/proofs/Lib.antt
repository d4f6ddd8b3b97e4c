pub mod Head
pub mod Judged
pub mod Passes
