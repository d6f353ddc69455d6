pub mod Worked
pub mod Accepted
pub mod Results
pub mod Answers
pub mod Decided
pub mod Instances
pub mod Table
pub mod Unique
