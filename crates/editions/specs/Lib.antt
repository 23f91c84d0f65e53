pub mod Editions
pub mod Either
pub mod EitherCases
