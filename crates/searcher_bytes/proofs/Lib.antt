pub mod Packing
pub mod Packable
pub mod Answers
pub mod OpenBytesSays
pub mod TakeBytesSays
