pub mod Xor
pub mod Shifts
pub mod Table
pub mod Bits
pub mod Fed
pub mod Theorems
