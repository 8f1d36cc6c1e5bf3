pub mod Samples
pub mod Leading
pub mod Powers
pub mod Counted
pub mod Followed
pub mod Best
