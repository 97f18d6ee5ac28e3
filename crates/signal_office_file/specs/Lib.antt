pub mod Files
pub mod Left
pub mod Serving
pub mod Stopping
pub mod Task
pub mod Ended
pub mod Migrating
pub mod Copying
