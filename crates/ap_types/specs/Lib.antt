pub mod Scopes
pub mod Settings
pub mod Laws
pub mod Sides
pub mod Spoken
