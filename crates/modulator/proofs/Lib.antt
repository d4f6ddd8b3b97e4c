pub mod Cases
pub mod Cut
