pub mod Answers
pub mod Changes
pub mod Forms
pub mod Hinted
pub mod Known
pub mod Runes
pub mod Laws
