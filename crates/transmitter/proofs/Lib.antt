pub mod Laws
pub mod Rules
mod Progress
pub mod Lists
pub mod Examples
