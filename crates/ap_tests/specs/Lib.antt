pub mod Families
pub mod Numbering
