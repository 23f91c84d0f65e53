pub mod Compact
pub mod CompactFormed
pub mod Asked
