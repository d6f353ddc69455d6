pub mod Run
pub mod Answers
pub mod Meets
pub mod Worked
