pub mod Text
pub mod Parse
pub mod Inverse
pub mod Calls
