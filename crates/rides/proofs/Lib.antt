pub mod Headers
pub mod Listing
pub mod Rising
pub mod Theorems
pub mod Depending
