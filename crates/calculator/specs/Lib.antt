pub mod Exchanges
pub mod Requests
