pub mod Eachs
pub mod Words
