pub mod TurboSays
