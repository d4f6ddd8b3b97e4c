pub mod Filling
pub mod Refusals
pub mod Runs
pub mod Indexed
pub mod Simulation
pub mod Lists
pub mod Answers
