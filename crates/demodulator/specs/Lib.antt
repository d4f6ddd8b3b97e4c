pub mod Lines
pub mod Demodulate
