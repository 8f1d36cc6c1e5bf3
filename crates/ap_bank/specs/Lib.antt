pub mod Held
pub mod HeldLaws
pub mod Whole
pub mod WholeLaws
pub mod Banks
