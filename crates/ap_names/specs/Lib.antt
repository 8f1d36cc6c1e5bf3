pub mod Names
pub mod Printed
pub mod Reading
pub mod Reads
