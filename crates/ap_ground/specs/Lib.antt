pub mod Written
pub mod Tabled
