pub mod Adding
pub mod OnePart
pub mod Spacing
pub mod Parts
pub mod Searching
pub mod SalvageSays
