pub mod Faults
pub mod Gains
pub mod Files
pub mod Books
pub mod Memory
