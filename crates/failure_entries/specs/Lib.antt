pub mod FailureBuild
pub mod FailureSearch
pub mod Cases
