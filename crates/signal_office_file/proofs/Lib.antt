mod CopyingLemmas
pub mod FilesLemmas
mod LeftLemmas
mod MigratingLemmas
pub mod ServingLemmas
pub mod StopLemmas
mod HeldLemmas
