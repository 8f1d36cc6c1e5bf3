pub mod Distinct
pub mod Branches
pub mod Refusals
pub mod Less
