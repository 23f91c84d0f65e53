pub mod States
pub mod Readings
pub mod Memory
pub mod SoFar
pub mod Theorems
