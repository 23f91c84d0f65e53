pub mod Turbo
pub mod Cases
