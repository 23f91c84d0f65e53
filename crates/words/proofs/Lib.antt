pub mod Lists
pub mod Distinct
pub mod Greatest
pub mod Words
pub mod Occurrences
pub mod Answers
pub mod Limits
pub mod Loops
