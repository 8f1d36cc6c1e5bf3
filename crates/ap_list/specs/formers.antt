pub mod boxed
pub mod seq
pub mod shared
pub mod shared_seq
