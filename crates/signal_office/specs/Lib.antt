pub mod Memory
pub mod Serving
pub mod Requests
