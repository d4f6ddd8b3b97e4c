pub mod Samples
pub mod Calls
pub mod Lists
pub mod Examples
