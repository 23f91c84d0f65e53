pub mod Prepared
pub mod Filling
