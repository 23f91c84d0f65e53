pub mod Between
pub mod Forward
pub mod Windows
pub mod Theorems
