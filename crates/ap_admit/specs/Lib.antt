pub mod Admission
pub mod Condition
pub mod Kept
