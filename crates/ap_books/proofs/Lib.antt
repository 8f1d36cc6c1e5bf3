pub mod Grammars
pub mod Showing
