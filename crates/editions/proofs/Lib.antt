pub mod AsPlain
pub mod Ways
pub mod Files
pub mod Theorems
pub mod Coding
