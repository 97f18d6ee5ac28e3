pub mod Bars
pub mod Charts
