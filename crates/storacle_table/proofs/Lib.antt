pub mod Cells
pub mod Laid
pub mod ReadBack
pub mod Theorems
pub mod Columns
pub mod SpinePut
pub mod Walking
pub mod Filling
