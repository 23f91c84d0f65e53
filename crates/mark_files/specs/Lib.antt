pub mod Save
pub mod Load
pub mod SearchFile
pub mod Cases
