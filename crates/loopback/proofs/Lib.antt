pub mod Refusals
pub mod Disturbing
pub mod Receiving
