pub mod Folding
pub mod Ahead
