pub mod Searchers
pub mod Opening
pub mod Taking
pub mod Pieces
pub mod Cases
