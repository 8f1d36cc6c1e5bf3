pub mod Ends
pub mod Cuts
pub mod Trees
pub mod Goods
pub mod Stops
pub mod GoOn
pub mod Bounds
pub mod Prefixes
