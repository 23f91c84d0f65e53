pub mod Tallies
pub mod Memory
