pub mod Induction
pub mod Row
