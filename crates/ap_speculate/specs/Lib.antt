pub mod Jobs
pub mod Boards
pub mod Turns
pub mod Sides
