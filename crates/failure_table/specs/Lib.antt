pub mod FailureTable
pub mod FailureFormed
pub mod FailureFreedom
pub mod Building
pub mod Asked
