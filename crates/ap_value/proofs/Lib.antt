pub mod Bytes
pub mod Constants
pub mod Equals
pub mod Induction
