pub mod SamePlace
pub mod SaveSays
pub mod LoadSays
pub mod LoadTheorems
pub mod SearchFileSays
pub mod Numbers
