pub mod Step
pub mod Calls
pub mod Lists
pub mod AsCoded
