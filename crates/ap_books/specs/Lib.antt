pub mod Texts
pub mod Package
pub mod Bodies
pub mod Plan
pub mod Demo
