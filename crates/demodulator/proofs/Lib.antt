pub mod Rows
pub mod Cases
pub mod Printed
pub mod Cut
