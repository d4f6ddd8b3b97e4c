pub mod Modulate
