pub mod Written
pub mod History
pub mod Parts
pub mod Table
