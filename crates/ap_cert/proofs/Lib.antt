pub mod Split
pub mod Printed
pub mod Values
pub mod Written
pub mod OneReading
pub mod Parts
pub mod Whole
