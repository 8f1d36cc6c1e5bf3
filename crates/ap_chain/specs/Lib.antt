pub mod Marks
pub mod Closing
pub mod Fitting
