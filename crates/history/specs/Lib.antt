pub mod PlainSet
pub mod Play
pub mod Tally
pub mod Order
pub mod Places
pub mod Courses
pub mod Demand
pub mod Steps
