mod Energies
mod Test
mod Facts
mod Opposite
mod Phases
mod Plain
pub mod Bands
