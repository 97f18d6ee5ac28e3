pub mod Kept
pub mod Version
pub mod Promises
