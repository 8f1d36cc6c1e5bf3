pub mod Fertilize
pub mod Generalize
pub mod Irrelevance
pub mod Laws
