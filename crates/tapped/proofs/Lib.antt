pub mod Tapped
