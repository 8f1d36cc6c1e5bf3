pub mod Naming
pub mod Eliminating
pub mod Laws
