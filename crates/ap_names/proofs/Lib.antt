pub mod Equal
pub mod OneReading
pub mod Parts
pub mod Named
pub mod Read
