pub mod Rooted
pub mod Places
pub mod Counted
pub mod Grounded
pub mod Kept
pub mod Made
pub mod StepLeads
