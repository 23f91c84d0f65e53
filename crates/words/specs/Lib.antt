pub mod Lists
pub mod Words
pub mod Answers
pub mod Limits
