pub mod Table
pub mod Freedom
pub mod Formed
pub mod Layout
pub mod Spare
pub mod Asked
