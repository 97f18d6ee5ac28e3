pub mod Keys
pub mod MapShelf
pub mod Placed
pub mod Records
pub mod Stored
