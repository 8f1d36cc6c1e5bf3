pub mod Bytes
pub mod Scans
pub mod Gaps
pub mod Hashes
pub mod Tokens
pub mod Grammar
pub mod Laws
