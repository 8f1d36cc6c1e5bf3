pub mod Chains
pub mod Chosen
pub mod Followed
pub mod LeftOut
pub mod Used
pub mod Smallest
pub mod Firsts
