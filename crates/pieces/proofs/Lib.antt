pub mod Kept
pub mod OnlyKept
pub mod OneLetter
pub mod Reaching
pub mod Skipping
pub mod Running
