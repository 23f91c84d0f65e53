pub mod TwoLists
pub mod FindRecord
