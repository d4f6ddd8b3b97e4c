mod Quarter
pub mod Laws
mod Filled
mod Folding
pub mod Rule
pub mod Wave
pub mod Parts
pub mod Examples
