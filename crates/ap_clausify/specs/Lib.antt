pub mod Flattening
pub mod Frames
pub mod Leaves
pub mod Places
pub mod Scanning
pub mod Splitting
pub mod Vanishing
