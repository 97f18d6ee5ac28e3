pub use Rattle.office_tables_shelf.specs.RegisterStands
pub mod Registers
pub mod Pending
pub mod Telling
pub mod Decides
