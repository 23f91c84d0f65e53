pub mod Rides
pub mod Answers
