pub mod Arrows
pub mod SuffixRule
pub mod LetterRule
pub mod Supply
pub mod FileOrder
pub mod SuffixPath
