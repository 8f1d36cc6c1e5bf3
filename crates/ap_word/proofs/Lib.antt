pub mod Stopping
pub mod Plays
