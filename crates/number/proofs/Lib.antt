pub mod Spelling
pub mod Seeing
pub mod Reading
pub mod Writing
pub mod Exactly
pub mod Theorems
