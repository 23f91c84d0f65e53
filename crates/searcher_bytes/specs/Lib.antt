pub mod Packing
pub mod OpenBytes
pub mod TakeBytes
pub mod Cases
