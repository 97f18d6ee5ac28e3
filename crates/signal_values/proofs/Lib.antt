mod Counting
pub mod Ties
