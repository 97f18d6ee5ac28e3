pub mod Overlaid
pub mod Written
pub mod Drafts
pub mod News
pub mod Lines
pub mod Makes
pub mod Sound
pub mod Revisions
