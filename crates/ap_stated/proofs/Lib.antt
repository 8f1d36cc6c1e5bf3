pub mod Answered
pub mod Defining
pub mod Formals
pub mod Measuring
pub mod Places
pub mod Preparing
pub mod Standing
pub mod Symbols
