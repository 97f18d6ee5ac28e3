pub mod Life
pub mod Turns
