pub mod Taken
pub mod Walks
