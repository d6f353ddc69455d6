pub mod Changes
pub mod Together
pub mod Turns
pub mod Once
pub mod Kept
