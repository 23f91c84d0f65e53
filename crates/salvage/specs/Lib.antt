pub mod Salvage
pub mod Cases
pub mod Listing
