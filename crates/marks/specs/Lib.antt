pub mod Build
pub mod Search
pub mod Cases
