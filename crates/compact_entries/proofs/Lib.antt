pub mod Rooms
pub mod BuildSays
pub mod SearchSays
