pub mod Told
pub mod Doubts
pub mod Taken
