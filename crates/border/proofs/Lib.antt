pub mod Longest
pub mod Closing
pub mod Theorems
pub mod Beginnings
pub mod Extending
pub mod Filling
