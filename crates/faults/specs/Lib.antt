pub mod Faults
pub mod Beginnings
pub mod EitherFaults
