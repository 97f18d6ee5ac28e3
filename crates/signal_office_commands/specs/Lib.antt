pub mod Refused
pub mod Changing
pub mod Editing
pub mod Days
