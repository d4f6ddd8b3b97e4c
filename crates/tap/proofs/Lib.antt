pub mod Pairs
pub mod Numbers
pub mod Measured
pub mod Merging
pub mod Order
pub mod Blocks
pub mod Parts
pub mod Lists
