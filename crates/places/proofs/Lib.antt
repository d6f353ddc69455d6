pub mod Held
pub mod History
pub mod Placed
pub mod Selected
pub mod Unique
