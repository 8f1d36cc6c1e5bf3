pub mod Gains
pub mod Places
