pub mod Trees
pub mod Laws
pub mod Cases
pub mod Held
