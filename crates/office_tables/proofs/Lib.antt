mod VersionLemmas
pub mod ArrangedLemmas
mod OpenLemmas
mod MadeLemmas
mod DropLemmas
mod RefillLemmas
pub mod MovedLemmas
mod ForeignLemmas
mod MigrateLemmas
pub mod Migration
