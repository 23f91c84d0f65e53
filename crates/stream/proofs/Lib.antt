pub mod Rows
pub mod History
pub mod Sound
pub mod Testing
pub mod Reached
pub mod OpenSays
pub mod TakeSays
pub mod Theorems
