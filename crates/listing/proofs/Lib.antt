pub mod Kept
pub mod Handed
