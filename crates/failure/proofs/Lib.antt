pub mod Halts
pub mod Paths
pub mod Added
pub mod Rule
pub mod Windows
pub mod Theorems
