pub mod Narrow
pub mod Walks
pub mod Integers
pub mod Sums
pub mod LiteralsHold
pub mod Certified
pub mod Ordering
pub mod Divisors
pub mod Left
pub mod InOrder
pub mod BoundsHold
pub mod AtomsKnown
mod Samples
