pub mod Reading
pub mod AfterFind
pub mod Windows
pub mod Theorems
pub mod Repeated
