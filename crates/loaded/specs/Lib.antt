pub mod Load
pub mod Answers
pub mod Accepts
pub mod Cases
