pub mod Stops
pub mod Words
pub mod Seats
