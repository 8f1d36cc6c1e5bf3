pub mod Values
pub mod Counts
pub mod Equal
pub mod Fits
