pub mod Wanted
pub mod Schema
pub mod Layout
pub mod Stored
pub mod Calls
pub mod Listed
pub mod Tables
pub mod Versions
