pub mod Slots
pub mod Spelled
pub mod Sizing
pub mod Putting
pub mod Theorems
