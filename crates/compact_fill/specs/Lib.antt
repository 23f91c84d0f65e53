pub mod Filling
pub mod Held
