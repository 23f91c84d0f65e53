pub mod CompactBuild
pub mod CompactSearch
pub mod Cases
