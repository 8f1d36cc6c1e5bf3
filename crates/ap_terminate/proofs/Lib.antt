pub mod Calling
pub mod Casing
pub mod Falling
