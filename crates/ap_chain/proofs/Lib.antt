pub mod Closed
pub mod Unpushed
pub mod Found
pub mod Starting
pub mod Going
pub mod Walks
pub mod Turns
