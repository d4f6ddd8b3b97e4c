pub mod Refusals
pub mod Outcome
pub mod Runs
pub mod Lists
