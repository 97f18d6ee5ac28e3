pub mod Reading
pub mod Moving
pub mod Decisions
pub mod Listing
pub mod Revising
