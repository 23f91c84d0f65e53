pub mod Looking
pub mod Pushing
pub mod Climbing
pub mod Model
pub mod Sources
pub mod Grown
pub mod Firsts
