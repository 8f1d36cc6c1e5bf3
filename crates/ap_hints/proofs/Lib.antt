pub mod Refusals
pub mod Knowing
pub mod Saying
pub mod Named
