pub mod BuildSays
