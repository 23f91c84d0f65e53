pub mod Begins
pub mod Going
pub mod SoFar
pub mod Row
