pub mod OutArrows
pub mod Marking
pub mod Starts
pub mod Putting
pub mod States
pub mod Finishing
pub mod Beginning
pub mod Held
