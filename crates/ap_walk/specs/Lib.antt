pub mod Visits
pub mod Tallies
pub mod Walks
pub mod Laws
