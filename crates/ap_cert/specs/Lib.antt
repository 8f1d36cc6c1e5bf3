pub mod Cert
pub mod Reads
