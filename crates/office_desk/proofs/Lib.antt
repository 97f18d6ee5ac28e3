pub use Rattle.office_desk_timing.proofs.EmptySet
pub use Rattle.office_desk_timing.proofs.IntersectionTable
pub use Rattle.office_desk_timing.proofs.ListedIntersections
pub mod Imports
mod Taking
pub mod Walks
pub mod TimingLaw
pub mod ShownRegister
pub mod RegisterLaws
pub mod Repeats
pub mod Recorded
pub mod FoundAgain
pub mod OverdueRows
pub mod Writes
pub mod Street
pub mod Undamaged
pub mod Answering
pub mod Runs
pub mod Edits
mod TriedRecords
pub mod Looks
