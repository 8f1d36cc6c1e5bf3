pub mod Totals
pub mod Ranked
pub mod Soundness
pub mod Known
pub mod Masked
pub mod Definitions
