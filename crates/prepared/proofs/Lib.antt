pub mod Made
pub mod Told
pub mod Parting
pub mod Putting
pub mod Filling
pub mod Copying
pub mod Marking
