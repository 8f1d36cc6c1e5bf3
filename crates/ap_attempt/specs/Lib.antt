pub mod Attempts
pub mod Drops
pub mod Laws
