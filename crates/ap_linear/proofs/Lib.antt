pub mod Walks
pub mod Signs
pub mod Lone
pub mod Struck
pub mod ByBits
pub mod Rising
pub mod Ranks
pub mod Turns
